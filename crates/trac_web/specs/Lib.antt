-- What of a dialogue and of a search for doubts is stated. The other requests, and what a host is told, are in
-- `trac_web_requests`.
pub mod Requests
