-- `Places`: lines and fields by the place where they end. `Digits`: fields of digits. `Reading`: what their readers tell. `Choice`: `read_form` leaves none.
pub mod Places
pub mod Digits
pub mod Reading
pub mod Choice
