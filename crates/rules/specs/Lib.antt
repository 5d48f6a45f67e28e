pub mod Places
pub mod Instances
pub mod Rules
pub mod Held
pub mod Drove
pub mod Made
pub mod Boards
