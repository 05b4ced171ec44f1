pub mod CertificateReading
pub mod CertificateText
pub mod SectionText
pub mod TextLaws
