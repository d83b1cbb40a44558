pub mod ProgramMedia
