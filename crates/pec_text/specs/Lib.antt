pub mod Byte
pub mod Id
pub mod Line
pub mod Scanning
pub mod Section
pub mod SectionHeader
pub mod SectionsOf
pub mod Spelling
