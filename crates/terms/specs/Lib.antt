-- The meaning, in the order of document 01: terms and messages, places, atoms (with number 6), instances and shared instances;
-- term entries (number 7), entries as terms (number 8); the first entry that is wrong.
pub mod Term
pub mod Place
pub mod Atom
pub mod Instance
pub mod Tag
pub mod Entry
pub mod Each
pub mod TermEntry
pub mod OneTerm
pub mod First
-- The meaning, decided: matching, sharing by unification of the terms themselves, with a fence around nonces; places, exactly
-- one term.
pub mod Decisions
pub mod Occurs
pub mod Seek
pub mod Unify
pub mod Solve
pub mod Apart
pub mod Fences
pub mod Decide
pub mod Turns
pub mod Search
pub mod Reading
-- What the parts of the code promise to each other: atom and term entries, flags for nonces, sameness and matching on entries;
-- two terms as one graph, classes of its nodes, and the test that every way down ends.
pub mod Count
pub mod EntryTables
pub mod Nonces
pub mod Slot
pub mod Front
pub mod Graph
pub mod TermGraph
pub mod Sizes
pub mod PlaceEntries
pub mod Names
pub mod Meeting
pub mod Meetings
pub mod Ending
-- Messages restricted to given atoms and keys, for the layer above.
pub mod Built
