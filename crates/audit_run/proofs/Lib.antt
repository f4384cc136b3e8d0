mod Marks
mod Parted
mod Closing
mod Replies
mod Finding
mod Agreeing
mod Stated
mod Audited
