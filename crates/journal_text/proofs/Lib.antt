mod MaximalRuns
mod WordsBack
mod FieldsBack
mod CanonicalBack
mod NotesBack
pub mod TextsBack
mod Journals
pub mod Feeds
