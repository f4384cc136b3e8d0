mod Searching
mod Looking
