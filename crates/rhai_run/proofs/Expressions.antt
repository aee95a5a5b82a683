-- Expressions: their commands, the progress of an evaluation, and the state afterwards.
pub mod Progress
pub mod Meant
pub mod Layered
pub mod Framed
pub mod Sheds
pub mod ProgramsAlike
pub mod Left
