-- The laws that the proof cites.
mod Laws
