-- Why what comes next is told by a window.
pub mod Followings
