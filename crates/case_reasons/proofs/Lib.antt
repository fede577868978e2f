mod Choices
mod Growing
