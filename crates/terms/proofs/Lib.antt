-- Laws of the meaning: answers, replacements, places; entries as terms, numbers 6 to 8.
pub mod AnswerLaws
pub mod InstanceLaws
pub mod PlaceLaws
pub mod SpotLaws
pub mod TagLaws
pub mod EntryLaws
pub mod PlacedLaws
pub mod PlaceEntryLaws
pub mod EachLaws
pub mod FirstLaws
pub mod AtomLaws
pub mod CountLaws
pub mod EntryTableLaws
pub mod OneTermLaws
pub mod BuiltLaws
-- Laws of sameness and matching on entries.
pub mod SlotLaws
pub mod FrontLaws
pub mod SameLaws
pub mod MatchLaws
pub mod RunLaws
-- Laws of sharing on entries: the graph, the classes and their names, the walk over both terms, the ways down.
pub mod GraphLaws
pub mod TermGraphLaws
pub mod SizeLaws
pub mod NodeLaws
pub mod NonceLaws
pub mod NameLaws
pub mod ClassLaws
pub mod ClassAnswers
pub mod MeetingLaws
pub mod RootLaws
pub mod EndingLaws
pub mod ShareLaws
-- Cases, decided by computation.
pub mod DecideTries
pub mod ValidTries
