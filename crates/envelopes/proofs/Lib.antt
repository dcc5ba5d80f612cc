-- Laws of the rules' definitions on envelopes and commands: the bytes of a value found; the handler's content; what an envelope says, step by step; either form of a tag.
pub mod Bytes
pub mod Contents
pub mod Judged
pub mod Forms
