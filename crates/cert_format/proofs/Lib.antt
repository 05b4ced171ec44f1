pub mod Answering
pub mod CertificateReads
pub mod Comparing
pub mod TextLaws
pub mod WholeLines
