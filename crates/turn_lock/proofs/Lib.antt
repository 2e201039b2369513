-- Begins: the rule of a table that was just made. Boxes: the steps of a seat on its own box. Frames: what the other seats are at, once one took
-- a step. Histories: what a history has of a pass once a turn was added. Turning: the steps of the seat that leads. Seats: splitting a seat, joining
-- two, and the end. Taken: slots that are taken out. Tops: boxes on top, questions with their answers, and acts. Views: lists of views after one of them changed.
pub mod Begins
pub mod Boxes
pub mod Frames
pub mod Histories
pub mod Turning
pub mod Seats
pub mod Taken
pub mod Tops
pub mod Views
