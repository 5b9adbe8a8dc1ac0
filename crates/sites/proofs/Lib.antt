mod Texts
mod LineReads
mod LineRecords
mod RecordLists
mod Results
mod Outcomes
mod Printing
pub mod Promising
mod Keeping
mod CartRooms
mod NextRecord
mod Reaching
mod Filling
mod SecondPass
mod RoomsKept
