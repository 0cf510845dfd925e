pub mod FairProducts
pub mod JointProducts
pub mod LassoWords
pub mod MeetingLemmas
pub mod TableauStates
