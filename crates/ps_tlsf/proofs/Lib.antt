mod SectionFormulas
mod ReadFormulas
mod OutlinedTexts
