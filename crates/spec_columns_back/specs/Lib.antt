-- What has the columns of the public documents is read as its values.
pub mod Cells
pub mod Further
pub mod LocusRead
pub mod FeatureRead
pub mod QualifierRead
pub mod OriginRead
pub mod OriginLine
pub mod EntryRead
pub mod Untaken
