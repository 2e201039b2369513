-- Caching: what is cached. Fitting: the cache fits the journal, before a read and after it. Searching: entries by offset.
pub mod Caching
pub mod Fitting
pub mod Searching
