-- Parsing the text that the writer produces for a circuit gives the same circuit. The modules of the folder Rereading
-- have lemmas about parsing written fields, lines, names, circuits and whole texts.

pub mod RereadFields
pub mod RereadLines
pub mod RereadNames
pub mod RereadCircuits
pub mod RereadText
