-- What plays, under document 01's headings and in its order. Clock: times, at a rate or in whole frames. Assign: "Stop" and "Assign". Events: what an event does. Pieces: "Pieces".
-- Sound: what numbers 8 and 14 ask of what plays. inner: what only the contracts of inner functions cite, and nobody has to believe.
pub mod Clock
pub mod Assign
pub mod Events
pub mod Pieces
pub mod Sound
pub mod inner
