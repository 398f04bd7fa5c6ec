-- What the contracts of `sampler_voice` cite. Sound: one frame's pair. Voices: what a voice is and does.
-- inner: what only the contracts of inner functions cite, and nobody has to believe.
pub mod Sound
pub mod Voices
pub mod inner
