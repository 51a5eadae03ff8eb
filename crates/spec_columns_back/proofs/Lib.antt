pub mod EntryRead
pub mod FeatureRead
pub mod QualifierRead
pub mod Further
pub mod SampleRead
pub mod LocusRead
