pub mod Books
pub mod Faults
pub mod Keys
pub mod Lines
