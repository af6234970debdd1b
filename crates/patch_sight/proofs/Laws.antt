-- The laws of loops that need neither bars nor the table.
pub mod Threes
