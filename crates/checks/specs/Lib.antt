pub mod Cut
pub mod Choice
pub mod Rules
pub mod Checked
pub mod SoundTable
