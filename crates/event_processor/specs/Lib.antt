-- What the contracts of `event_processor` cite. Queue: the events that wait, as a list, and what each call answers.
pub mod Queue
