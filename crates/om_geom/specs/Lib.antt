pub mod Addresses
pub mod Numbers
pub mod AddressLaws
pub mod Classes
pub mod ClassLaws
pub mod Fit
pub mod FitLaws
pub mod BitLaws
