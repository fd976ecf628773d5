pub mod Meaning
pub mod RecordLaws
pub mod Records
pub mod Boxes
pub mod ShiftLaws
pub mod Shifts
pub mod Corners
