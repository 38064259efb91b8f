pub mod Grammar
pub mod Requests
pub mod Commands
pub mod Reading
pub mod Replies
pub mod ScriptReplies
pub mod Laws
