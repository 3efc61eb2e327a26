-- The debugger. First read what a text of commands is (`trac_streams/specs/Lines.antt`) and how a state is shown
-- (`trac_state_lines/specs/StateLines.antt`). Then read these in this order: the command of a line, the reply to a
-- command, and a whole session. All of it is this project's profile.
pub mod Commands
pub mod Replies
pub mod Outputs
pub mod Debugging
-- How the code's commands are seen.
pub mod Views
-- What the debugger reads and writes.
pub mod Debugs
