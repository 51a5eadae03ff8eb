pub mod QualifierBack
pub mod FeatureBack
pub mod LocationBack
pub mod RecordBack
pub mod RecordsBack
pub mod AnswersBack
