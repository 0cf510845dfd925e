pub mod CertificateThere
