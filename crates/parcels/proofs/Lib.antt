pub mod TurnLaws
pub mod SearchLaws
