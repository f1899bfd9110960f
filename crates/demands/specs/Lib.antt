-- The demands of the code, for a customer: what is known of one use of a public function, and of two histories of such
-- uses, by the contracts alone. proofs/Final.antt proves each claim. In order:
--   Promised  what the contracts say, over plain lists, and that they say it
--   Run        demands 1 and 2: one use of a function
--   Texts      demands 1 and 2: a text typed in, and texts back and forth
--   Pieces     demands 1 and 2: a text that arrives in pieces
--   Files      demands 1 and 2: a file loaded, a store saved, and a controller swap
--   Runs       demand 3: two histories, collections in between
--   Example    two unequal stores and two histories that meet the premises of demand 3
-- The first heap cell is the code's. Assumes nothing.
pub mod Promised
pub mod Run
pub mod Texts
pub mod Pieces
pub mod Files
pub mod Runs
pub mod Example
