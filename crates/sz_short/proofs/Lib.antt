pub mod ShortNumbers
pub mod ShortRuns
pub mod Respelling
pub mod RespellingPay
mod Rows
