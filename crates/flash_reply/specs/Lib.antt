pub mod GivenBack
pub mod Lines
pub mod MetaReplies
pub mod Queue
pub mod Replies
pub mod ReplyLaws
pub mod TextReplies
