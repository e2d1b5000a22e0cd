mod Placing
mod Order
mod Trees
mod Least
mod Longer
mod Around
