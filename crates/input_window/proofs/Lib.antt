-- Why a window shows what was read and is not taken yet.
pub mod Windows
