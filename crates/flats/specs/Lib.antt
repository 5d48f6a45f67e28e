pub mod FlatLists
