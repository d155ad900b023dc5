pub mod Event
pub mod Frame
pub mod Laws
pub mod Log
pub mod Machine
pub mod Part
pub mod Run
pub mod Source
