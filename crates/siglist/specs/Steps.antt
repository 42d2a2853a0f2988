-- The values that the steps of the reading compute from the front of bytes. No public clause names
-- these words: public clauses use SignatureLists for the bytes of lists, and ListsFaults for where
-- reading stops.
pub mod Reading
