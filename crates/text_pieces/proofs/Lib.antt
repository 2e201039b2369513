-- Going: a text that is written line by line, from its begin to its end.
pub mod Going
