pub mod Beginnings
pub mod CertificateLaws
pub mod Certificates
pub mod Taking
