pub mod LeftOut
