pub mod NamesBack
