-- What stands for records: Contents, Numbers and ShortNumbers (their fields), Parts (what stands in front of bytes), Uniqueness
-- (in one way). The pass over them: Passed, Walking, Contented. The faults: FaultOrder, OneFault. What is placed and written:
-- Placed, WrittenSizes, Spelled. Where records stand: RecordPlaces.
pub mod Contents
pub mod Parts
pub mod Numbers
pub mod Passed
pub mod FaultOrder
pub mod Uniqueness
pub mod Walking
pub mod Contented
pub mod Placed
pub mod WrittenSizes
pub mod Spelled
pub mod ShortNumbers
pub mod OneFault
pub mod RecordPlaces
