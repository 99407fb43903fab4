pub mod ShortPrograms
