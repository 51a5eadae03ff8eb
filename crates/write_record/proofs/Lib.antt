-- What the writer's answers cite.
pub mod Typed
