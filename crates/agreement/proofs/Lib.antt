pub mod SourceSteps
pub mod SourceWrites
pub mod SourcePatches
pub mod SourceAgrees
pub mod PublishedFollows
