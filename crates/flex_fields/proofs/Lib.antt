-- Moved: a field that was read, as a field of a structure. Puts, Written: what is written of the parts is written of the whole, and
-- stands for what was to be written. Repeated: items that are read one after the other. Shortest: the spelling of a number that is
-- written. Utf8: the test of UTF-8. Whole: reading all of the bytes.
pub mod Moved
pub mod Olds
pub mod Puts
pub mod Repeated
pub mod Shortest
pub mod Told
pub mod Utf8
pub mod Whole
pub mod Written
