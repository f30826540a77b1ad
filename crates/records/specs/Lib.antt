pub mod RecordBytes
pub mod Syncs
