pub mod Hmac
pub mod Signing
pub mod Claims
pub mod Bodies
pub mod Checks
