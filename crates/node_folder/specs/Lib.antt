-- when a folder is scanned
pub mod Schedules
-- which names are scanned again soon
pub mod LeftOver
-- when versions are removed
pub mod Trash
-- when a folder waits of whose names none is there
pub mod Held
