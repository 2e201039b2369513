-- Bare: a struct with no fields. Changes: a change of a disk and the sync behind it. FrameReads: a frame is read at its place. Grouped: frames that are written as one. Handing: frames are handed over. InPieces: a content is read in pieces. Lone: a journal behind whose first gate no byte can stand. Once: a text is read in one way. Repairs: what the repair of a text's end leaves. Shaped: from the shape of the images before
-- a call to that of those after it. Shapes: what writes and cuts make of each shape. Spares: a journal that is cleared and written anew. Texts: a text that is read frame by frame.
-- Total: each content is journal text, or is damaged at a place. Whole: text that ends with its last gate.
pub mod Bare
pub mod Changes
pub mod FrameReads
pub mod Grouped
pub mod Handing
pub mod InPieces
pub mod Lone
pub mod Once
pub mod Repairs
pub mod Shaped
pub mod Shapes
pub mod Spares
pub mod Texts
pub mod Total
pub mod Whole
