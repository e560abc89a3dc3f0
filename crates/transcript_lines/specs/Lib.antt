pub mod Transcript
pub mod TranscriptText
