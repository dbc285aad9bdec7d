pub mod OldLines
